pub mod DiskSaves
