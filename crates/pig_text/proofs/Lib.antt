mod Joined
mod TextLists
