pub mod LeafOrders
pub mod Orders
