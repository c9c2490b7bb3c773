pub mod Edges
pub mod Every
pub mod Laws
pub mod Tests
