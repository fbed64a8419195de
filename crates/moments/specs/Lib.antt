-- The record in parts, and the station totals as their type holds them.
pub mod Totals
pub mod Parts
