mod Chunks
mod Holding
mod Options
mod PieceByPiece
