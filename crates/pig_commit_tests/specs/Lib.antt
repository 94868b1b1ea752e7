pub mod TwoStores
