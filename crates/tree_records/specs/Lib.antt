pub mod Origins
pub mod Records
pub mod inner
