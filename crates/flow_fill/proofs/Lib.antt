mod Quotes
mod TextLaws
mod LineLaws
mod Steps
mod Grammar
mod Remains
mod Joined
