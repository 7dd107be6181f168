-- The lines of a graph text, what they say, and the graph that a text stands for.
pub mod Lines
pub mod Said
pub mod Item
pub mod Numbers
pub mod Before
pub mod Cause
pub mod Text
pub mod Reading
pub mod PlainText
pub mod DraftView
pub mod Taken
