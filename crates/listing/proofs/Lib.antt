mod DigitLaws
mod ListedLines
mod ListedSheet
