pub mod ExportRefusal
pub mod ExportAnswer
