pub mod EventImage
