mod Singles
mod Finer
mod Start
