pub mod OfDevices
