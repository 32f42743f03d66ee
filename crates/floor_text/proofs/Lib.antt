pub mod DraftLists
