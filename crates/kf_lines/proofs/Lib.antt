mod EachLine
mod Texts
mod Walking
