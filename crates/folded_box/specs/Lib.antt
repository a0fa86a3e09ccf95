pub mod FoldedBox
