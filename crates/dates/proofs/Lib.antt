-- The laws of years, dates and windows.
pub mod CalendarLaws
pub mod CalendarDays
pub mod CalendarWindows
