mod Covering
mod Denser
