mod Examples
pub mod PackedSheet
mod TableRows
mod TableWritten
