pub mod Origins
pub mod Records
