pub mod Widths
pub mod EffectWidths
