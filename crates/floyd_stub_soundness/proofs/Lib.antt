pub mod MainSound
