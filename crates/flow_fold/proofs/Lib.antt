pub mod FolderEnd
pub mod FolderStream
