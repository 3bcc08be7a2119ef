pub mod Advancing
pub mod Asking
pub mod Closing
pub mod Lists
pub mod Rising
pub mod Stacks
pub mod Used
pub mod Working
