mod LeafOrders
mod Meeting
mod Planned
mod Rows
mod Placing
