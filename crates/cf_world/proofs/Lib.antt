mod Checking
mod Parted
