mod ScanLemmas
mod SchemaLemmas
mod RequestLemmas
mod KeyLemmas
mod EndLemmas
mod MapLemmas
pub mod LoadedLemmas
pub mod PrintedLemmas
pub mod RowLemmas
pub mod Told
mod RunLemmas
mod Headline
mod GetHeadline
mod CheckHeadline
mod ListLemmas
mod RunPuts
mod LoadLemmas
mod GetLemmas
mod CheckLemmas
mod GenLemmas
mod Generated
