mod Tables
mod Values
mod HeadLengths
mod Lexing
mod OneReading
mod NameTexts
mod Steps
