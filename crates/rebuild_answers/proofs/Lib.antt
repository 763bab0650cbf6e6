pub mod RebuildRefusals
pub mod Promises
pub mod RoundTrip
