mod RunLines
mod Told
