-- Laws that the calls of the sizing screen lean on.
pub mod Asked
pub mod SheetAsked
