-- Document 02, F-6: what floating commands do, for every number, and worked steps.
pub mod FloatingNumbers
