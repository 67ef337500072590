-- Data in the words of serde_json: numbers, arrays of numbers, and objects whose fields stand in a
-- given order.
use Rattle.std.specs.Prelude.{ℕ, List, [], ◌∷◌, ◌++◌, map, codes}
use Rattle.json.specs.Print.{quoted}
use Rattle.serde_json.specs.Data.{Data, Members, array, member, no_members, number, object}
use Rattle.serde_json.specs.Data.{unsigned}
use Rattle.serde_json.specs.View.{items_of}
use Rattle.serde_json.specs.Written.{compact_text}

abbrev pub number_data : ℕ → Data
number_data n = number (unsigned n)

abbrev pub numbers_data : List ℕ → Data
numbers_data ns = array (items_of (map number_data ns))

-- the members of an object, each a name with its value, in this order
abbrev pub fields : List (List ℕ × Data) → Members
fields [] = no_members
fields (field ∷ rest) = member field.0 field.1 (fields rest)

abbrev pub object_of : List (List ℕ × Data) → Data
object_of named = object (fields named)

-- a line of data: the compact text of a value, and LF
abbrev pub data_line : Data → List ℕ
data_line d = compact_text d ++ codes "\n"

-- a field as it stands in an object: `"NAME":VALUE`
abbrev pub field_text : List ℕ × Data → List ℕ
field_text field = quoted field.0 ++ 58 ∷ compact_text field.1
