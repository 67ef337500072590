pub mod Facts
pub mod TypeLaws
pub mod Starts
pub mod OneMeanings
pub mod Sites
pub mod ToldApart
pub mod BytesApart
