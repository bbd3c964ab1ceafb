pub mod ReturnJump
