pub mod KeptSettings
