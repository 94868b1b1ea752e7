mod Validity
mod FieldCodes
mod LentRows
mod GroupRows
mod Joins
