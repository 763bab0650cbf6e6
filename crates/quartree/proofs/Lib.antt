pub mod HalvesReplies
mod TextReplies
pub mod SheetCall
