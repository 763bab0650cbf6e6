pub mod Changes
pub mod Accepted
pub mod GraftsPruned
pub mod PrunesGrafted
pub mod Promises
