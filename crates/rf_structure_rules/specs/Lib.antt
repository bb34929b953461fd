pub mod StructureOffsets
