pub mod PortNames
