-- Laws of masks, and of tables that are made place by place.
pub mod MaskLaws
pub mod Filled
pub mod MadeByPlace
