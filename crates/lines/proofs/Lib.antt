mod Frame
mod GapFiller
