pub mod SevenBands
pub mod RowPromise
pub mod SheetTable
pub mod TablePromise
