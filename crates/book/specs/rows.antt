pub mod Delivery
pub mod Withdrawal
pub mod RowLaws
pub mod PlaceOrder
pub mod RowDelivery
pub mod AlikeDelivery
pub mod Costs
