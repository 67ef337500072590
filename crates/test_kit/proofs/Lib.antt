mod ListedNodes
mod WrittenNumbers
