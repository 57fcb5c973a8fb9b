pub mod WhereStream
