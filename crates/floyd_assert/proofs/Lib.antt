mod InsideLists
mod Marks
mod SameParts
