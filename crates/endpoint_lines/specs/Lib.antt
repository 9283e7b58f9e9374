pub mod EndpointLines
pub mod EndpointRoom
