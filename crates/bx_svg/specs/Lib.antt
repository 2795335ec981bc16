pub mod Markup
pub mod Shapes
