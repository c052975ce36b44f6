pub mod WrittenHeld
