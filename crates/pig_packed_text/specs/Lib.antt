pub mod SeenTexts
