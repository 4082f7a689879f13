pub mod Grammar
pub mod Forms
pub mod Said
pub mod Numbers
pub mod Reading
pub mod Laws
