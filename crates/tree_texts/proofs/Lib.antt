pub mod IndentLemmas
