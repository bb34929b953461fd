-- Private: no public contract cites these, for that of `judge` cites the definitions of rf_graph.
pub mod Edges
pub mod EdgeEnds
pub mod Containers
pub mod ContainerOf
pub mod Peeling
pub mod Least
pub mod Objects
pub mod NodeLists
pub mod Suspects
pub mod SymbolKinds
pub mod Tuples
pub mod Indexed
pub mod GraphKnown
