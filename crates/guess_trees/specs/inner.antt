pub mod TreeTables
