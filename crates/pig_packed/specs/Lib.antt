pub mod RowCodes
pub mod Growth
