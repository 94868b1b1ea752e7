pub mod Naming
pub mod Covered
pub mod Blocks
pub mod Bags
pub mod Sides
pub mod Nodes
pub mod PlanNeeds
