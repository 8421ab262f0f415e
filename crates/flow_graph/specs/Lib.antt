pub mod Graphs
pub mod EventGraphs
pub mod Keeping
pub mod Builders
pub mod Events
pub mod LinkOrders
